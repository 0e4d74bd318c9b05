-- Laws of this crate's functions: records past the last one that the words have room for are neither read nor stored, and what a loop has done of a list.
use Prim.Native.Nat.{ℕ, ◌≤◌}
use mathlib.Core.List.{List, []}
use mathlib.Core.Path.{◌≡◌, refl, sym, ap, ◌∙◌}
use lib.ListN.{length, get_or, set, get_or-eq_default}
use lib.Seq.{set_out}
use Rattle.laws.specs.Overlay.{overlay}
use Rattle.laws.specs.Tabulate.{length_tabulate}
use Rattle.client_transfer.specs.Rest.{SameButRequests}
use Rattle.protocol.specs.declared.records.Copy.{Copy}
use Rattle.protocol.specs.declared.records.Request.{Request}
use Rattle.protocol.specs.Tables.{no_copy, no_request}
use Rattle.state_words.specs.View.{Records, records_of, requests_of}
use Rattle.client_records.specs.Stores.{with_copies, with_requests}

module _ (w x : List ℕ) (k : ℕ) where
  copies_past : 512 ≤ k → length (records_of w x).copies ≤ k
  unfolding records_of
  copies_past h = rw (length_tabulate _ 0 512) h

  requests_past : 16 ≤ k → length (records_of w x).requests ≤ k
  unfolding records_of
  requests_past h = rw (length_tabulate _ 0 16) h

  past_last : 16 ≤ k → length (requests_of w) ≤ k
  unfolding records_of
  past_last h = requests_past h

  pub no_copy_kept : (c : Copy) → 512 ≤ k → (records_of w x).copies ≡ set (records_of w x).copies k c
  no_copy_kept c h = sym (set_out (records_of w x).copies k c (copies_past h))

  pub no_request_kept : (r : Request) → 16 ≤ k → requests_of w ≡ set (requests_of w) k r
  no_request_kept r h = sym (set_out (requests_of w) k r (past_last h))

  pub no_copy_there : (c : Copy) → 512 ≤ k → c ≡ no_copy → c ≡ get_or (records_of w x).copies k no_copy
  no_copy_there c h e = e ∙ sym (get_or-eq_default (records_of w x).copies no_copy (copies_past h))

pub no_request_there : (w : List ℕ) (k : ℕ) (r : Request) → 16 ≤ k → r ≡ no_request → r ≡ get_or (requests_of w) k no_request
no_request_there w k r h e = e ∙ sym (get_or-eq_default (requests_of w) no_request (requests_past w [] k h))

-- the records of p are those of q with l in place of one of the lists
module _ (p q : Records) where
  pub copies_replaced : (l : List Copy) → p.copies ≡ l → p.requests ≡ q.requests → p ≡ with_copies q l
  copies_replaced l e f = rw (← e, ← f)

  pub requests_replaced : (l : List Request) → p.requests ≡ l → p.copies ≡ q.copies → p ≡ with_requests q l
  requests_replaced l e f = rw (← e, ← f)

own_requests : (w x : List ℕ) → requests_of w ≡ (records_of w x).requests
unfolding records_of
own_requests w x = refl

-- requests lie in the words alone
pub requests_taken : (w u x : List ℕ) (l : List Request) (n : ℕ) → requests_of u ≡ overlay no_request (requests_of w) l n → SameButRequests w u
    → records_of u x ≡ with_requests (records_of w x) (overlay no_request (records_of w x).requests l n)
requests_taken w u x l n e f =
    requests_replaced (records_of u x) (records_of w x)
    _ (sym (own_requests u x) ∙ e ∙ ap (λ (m : List Request). overlay no_request m l n) (own_requests w x)) (f x).1
