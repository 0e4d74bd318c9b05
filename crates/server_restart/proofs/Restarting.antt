-- The result of each part of a restart, and of the whole.
use Prim.Native.Nat.{ℕ, ◌+◌, ◌-◌, ◌<◌, ◌≤◌}
use native.Mathlib.Omega.{arith}
use mathlib.Core.List.{List}
use mathlib.Core.Path.{◌≡◌, refl, sym, ap, ◌∙◌}
use lib.ListN.{length, get_or, set, replicate}
use lib.Seq.{get_or-set_other}
use borrow.Author.Tests.{ltb-true, ltb-false}
use Rattle.std.specs.Prelude.{true, false, ◌⊎◌, ltb}
use Rattle.std.proofs.Common.{inl, inr, ext_get_or}
use Rattle.laws.specs.Choice.{true_or_false}
use Rattle.laws.specs.Flags.{flags_zero}
use Rattle.laws.specs.Loop.{fold_from, fold_again}
use Rattle.laws.specs.Parts.{parts, with_part, part_at, part_length, stored_each, filling, length_filled, filled_field, copied}
use Rattle.laws.specs.Shift.{Above}
use Rattle.laws.specs.Store.{store_at, store_each, always, length_store, store_hit, store_other}
use Rattle.protocol.specs.declared.setup.Setup.{Setup}
use Rattle.protocol.specs.Server.{server_restarted}
use Rattle.state_words.specs.Fields.{word_lengths, value_lengths, at, at_value, WORDS, VALUES, VOLUME_EPOCH, VOLUME_EXPIRY, GUARD, SEEN}
use Rattle.state_words.specs.Fields.{SESSION_EXPIRY, UNREACHABLE, OFFER, OBJECT_EXPIRY, STANDING, END, LEASE, WAITING, NOTES, BATCH, PENDING}
use Rattle.state_words.specs.View.{tables_of, numbers_of, records_of}
use Rattle.server_restart.specs.Restart.{EpochsGrow, sessions_cleared, objects_cleared, holders_cleared}

-- ---- the bound on an epoch

pub epochs_numbers : (n : ℕ) (w x : List ℕ) → EpochsGrow n (tables_of w x) → EpochsGrow n (numbers_of w)
unfolding tables_of
epochs_numbers n w x g = record { below = g.below }

pub epoch_grows : (n : ℕ) (w : List ℕ) (v : ℕ) → EpochsGrow n (numbers_of w) → v < n → v < 8 → get_or w (at VOLUME_EPOCH + v) 0 < 4294967295
unfolding tables_of
epoch_grows n w v g h k = rw (part_at word_lengths w VOLUME_EPOCH v k) (g.below v h)

-- ---- one iteration of each loop

pub grow_keeps : (w₀ w : List ℕ) (v y : ℕ) → Above w₀ w (at VOLUME_EPOCH + v) → Above w₀ (set w (at VOLUME_EPOCH + v) y) (at VOLUME_EPOCH + (v + 1))
grow_keeps w₀ w v y a = record { same = λ q k. get_or-set_other w (at VOLUME_EPOCH + v) q y 0 (λ e. omega arith) ∙ a.same q (omega arith) }

module _ (w₀ w : List ℕ) (v n : ℕ) (i : n ≤ 8) (h : v < n) where
  pub grow_again : (A : List ℕ) → Above w₀ w (at VOLUME_EPOCH + v)
      → fold_from (store_at always (λ (v : ℕ). at VOLUME_EPOCH + v) (λ (v : ℕ). get_or (parts word_lengths w₀ VOLUME_EPOCH) v 0 + 1)) w v (n - v) ≡ A
      → fold_from
      (store_at always (λ (v : ℕ). at VOLUME_EPOCH + v) (λ (v : ℕ). get_or (parts word_lengths w₀ VOLUME_EPOCH) v 0 + 1))
      (set w (at VOLUME_EPOCH + v) (get_or w (at VOLUME_EPOCH + v) 0 + 1)) (v + 1) (n - (v + 1)) ≡ A
  grow_again A a f =
      fold_again (store_at always (λ (v : ℕ). at VOLUME_EPOCH + v) (λ (v : ℕ). get_or (parts word_lengths w₀ VOLUME_EPOCH) v 0 + 1)) n v w _ A h
      (rw (a.same (at VOLUME_EPOCH + v) (omega arith), part_at word_lengths w₀ VOLUME_EPOCH v (omega arith))) f

-- ---- the guards copied

-- w is copied to u, but for the guards, which become the volume expiries
module _ (w u : List ℕ) (h : length w ≡ WORDS) (l : length u ≡ length w)
    (copy : (k d : ℕ) → at GUARD ≤ k → k < at GUARD + 8 → get_or u k d ≡ get_or w (at VOLUME_EXPIRY + (k - at GUARD)) d)
    (low : (k d : ℕ) → k < at GUARD → get_or u k d ≡ get_or w k d) (high : (k d : ℕ) → at GUARD + 8 ≤ k → get_or u k d ≡ get_or w k d) where
  abbrev place : ℕ → ℕ
  place v = at GUARD + v

  abbrev expiry : ℕ → ℕ
  expiry v = get_or (parts word_lengths w VOLUME_EXPIRY) v 0

  guard : (v : ℕ) → v < 8 → get_or u (at GUARD + v) 0 ≡ get_or (store_each always place expiry w 8) (at GUARD + v) 0
  guard v b =
      let e : at GUARD + v - at GUARD ≡ v = omega arith in
      let c : get_or u (at GUARD + v) 0 ≡ get_or w (at VOLUME_EXPIRY + (at GUARD + v - at GUARD)) 0 = copy (at GUARD + v) 0 (omega arith) (omega arith) in
      rw e at c ∙ part_at word_lengths w VOLUME_EXPIRY v (omega arith) ∙ sym (store_hit always place expiry (λ a b c. omega arith) w 8 v 0 b refl (omega (arith, h)))

  each : (i : ℕ) → (ltb i 594 ≡ true) ⊎ (ltb i 594 ≡ false) → (ltb i 602 ≡ true) ⊎ (ltb i 602 ≡ false) → get_or u i 0 ≡ get_or (store_each always place expiry w 8) i 0
  each i (inl e) q =
      let a = ltb-true i 594 e in
      low i 0 (omega arith) ∙ sym (store_other always place expiry w 8 i 0 (λ k b c f. omega arith))
  each i (inr e) (inl q) =
      let a = ltb-false i 594 e in
      let b = ltb-true i 602 q in
      let z : i ≡ at GUARD + (i - at GUARD) = omega arith in
      rw z (guard (i - at GUARD) (omega arith))
  each i (inr e) (inr q) =
      let a = ltb-false i 602 q in
      high i 0 (omega arith) ∙ sym (store_other always place expiry w 8 i 0 (λ k b c f. omega arith))

  pub guards_copied : u ≡ store_each always place expiry w 8
  guards_copied =
      ext_get_or 0 u (store_each always place expiry w 8) (l ∙ sym (length_store always place expiry w 8)) (λ i b. each i (true_or_false (ltb i 594)) (true_or_false (ltb i 602)))

-- ---- clearing fields

module _ (w u : List ℕ) (h : length w ≡ WORDS) where
  -- clearing n words of field k keeps the length
  cleared : (k n : ℕ) (v : List ℕ) → length v ≡ WORDS → length (filling (at k) n 0 v) ≡ WORDS
  cleared k n v l = length_filled (at k) n 0 v _ refl ∙ l

  -- w with some of the fields cleared
  abbrev seen : List ℕ
  seen = filling (at SEEN) 16 0 w

  abbrev expiries : List ℕ
  expiries = filling (at SESSION_EXPIRY) 128 0 seen

  abbrev marks : List ℕ
  marks = filling (at UNREACHABLE) 128 0 expiries

  abbrev offers : List ℕ
  offers = filling (at OFFER) 128 0 marks

  abbrev noted : List ℕ
  noted = filling (at NOTES) 128 0 offers

  abbrev leases : List ℕ
  leases = filling (at OBJECT_EXPIRY) 32 0 w

  abbrev standing : List ℕ
  standing = filling (at STANDING) 32 0 leases

  abbrev held : List ℕ
  held = filling (at LEASE) 512 0 w

  pub sessions_length : u ≡ sessions_cleared w → length u ≡ WORDS
  sessions_length e =
      ap length e ∙ cleared BATCH 128 noted (cleared NOTES 128 offers (cleared OFFER 128 marks
      (cleared UNREACHABLE 128 expiries (cleared SESSION_EXPIRY 128 seen (cleared SEEN 16 w h)))))

  pub sessions_fields : u ≡ sessions_cleared w
      → parts word_lengths u ≡ with_part (with_part (with_part (with_part (with_part (with_part (parts word_lengths w) SEEN (replicate 16 0))
      SESSION_EXPIRY (replicate 128 0)) UNREACHABLE (replicate 128 0)) OFFER (replicate 128 0)) NOTES (replicate 128 0)) BATCH (replicate 128 0)
  sessions_fields e =
      let a = cleared SEEN 16 w h in
      let b = cleared SESSION_EXPIRY 128 seen a in
      let c = cleared UNREACHABLE 128 expiries b in
      let f = cleared OFFER 128 marks c in
      let g = cleared NOTES 128 offers f in
      rw (
        filled_field word_lengths noted u BATCH 0 (omega (arith, g)) e,
        filled_field word_lengths offers noted NOTES 0 (omega (arith, f)) refl,
        filled_field word_lengths marks offers OFFER 0 (omega (arith, c)) refl,
        filled_field word_lengths expiries marks UNREACHABLE 0 (omega (arith, b)) refl,
        filled_field word_lengths seen expiries SESSION_EXPIRY 0 (omega (arith, a)) refl,
        filled_field word_lengths w seen SEEN 0 (omega (arith, h)) refl,
      )

  pub objects_length : u ≡ objects_cleared w → length u ≡ WORDS
  objects_length e = ap length e ∙ cleared END 32 standing (cleared STANDING 32 leases (cleared OBJECT_EXPIRY 32 w h))

  pub objects_fields : u ≡ objects_cleared w
      → parts word_lengths u ≡ with_part (with_part (with_part (parts word_lengths w) OBJECT_EXPIRY (replicate 32 0)) STANDING (replicate 32 0)) END (replicate 32 0)
  objects_fields e =
      let a = cleared OBJECT_EXPIRY 32 w h in
      let b = cleared STANDING 32 leases a in
      rw (
        filled_field word_lengths standing u END 0 (omega (arith, b)) e,
        filled_field word_lengths leases standing STANDING 0 (omega (arith, a)) refl,
        filled_field word_lengths w leases OBJECT_EXPIRY 0 (omega (arith, h)) refl,
      )

  pub holders_fields : u ≡ holders_cleared w → parts word_lengths u ≡ with_part (with_part (parts word_lengths w) LEASE (replicate 512 0)) WAITING (replicate 32 0)
  holders_fields e =
      let a = cleared LEASE 512 w h in
      rw (filled_field word_lengths held u WAITING 0 (omega (arith, a)) e, filled_field word_lengths w held LEASE 0 (omega (arith, h)) refl)

-- ---- the whole restart: the words go from w through a, b, c and d to u, the values from x to y

module _ (s : Setup) (w a b c d u x y : List ℕ) (n : ℕ) (h : length w ≡ WORDS) (l : length x ≡ VALUES) (i : n ≡ s.volumes) (j : n ≤ 8)
    (e₁ : a ≡ store_each always (λ (v : ℕ). at VOLUME_EPOCH + v) (λ (v : ℕ). get_or (parts word_lengths w VOLUME_EPOCH) v 0 + 1) w n)
    (e₂ : b ≡ store_each always (λ (v : ℕ). at GUARD + v) (λ (v : ℕ). get_or (parts word_lengths a VOLUME_EXPIRY) v 0) a 8)
    (e₃ : c ≡ sessions_cleared b) (e₄ : d ≡ objects_cleared c) (e₅ : u ≡ holders_cleared d) (f : y ≡ filling (at_value PENDING) 32 0 x) where
  long : length b ≡ WORDS
  long =
      ap length e₂ ∙ length_store always (λ (v : ℕ). at GUARD + v) (λ (v : ℕ). get_or (parts word_lengths a VOLUME_EXPIRY) v 0) a 8
      ∙ ap length e₁ ∙ length_store always (λ (v : ℕ). at VOLUME_EPOCH + v) (λ (v : ℕ). get_or (parts word_lengths w VOLUME_EPOCH) v 0 + 1) w n ∙ h

  guards : parts word_lengths b ≡ with_part (parts word_lengths a) GUARD (store_each always (λ (v : ℕ). v) (λ (v : ℕ). get_or (parts word_lengths a VOLUME_EXPIRY) v 0)
      (parts word_lengths a GUARD) 8)
  guards = ap (parts word_lengths) e₂ ∙ stored_each word_lengths GUARD always (λ (v : ℕ). v) (λ (v : ℕ). get_or (parts word_lengths a VOLUME_EXPIRY) v 0) 8 (λ d l. l) a

  epochs : parts word_lengths a ≡ with_part (parts word_lengths w) VOLUME_EPOCH (store_each always (λ (v : ℕ).
      v) (λ (v : ℕ). get_or (parts word_lengths w VOLUME_EPOCH) v 0 + 1) (parts word_lengths w VOLUME_EPOCH) n)
  epochs = ap (parts word_lengths) e₁ ∙ stored_each word_lengths VOLUME_EPOCH always (λ (v : ℕ). v) (λ (v : ℕ). get_or (parts word_lengths w VOLUME_EPOCH) v 0 + 1) n (λ d l. omega arith) w

  tables_restarted : tables_of u y ≡ server_restarted s (tables_of w x)
  unfolding server_restarted tables_of
  tables_restarted =
      let lc = sessions_length b c long e₃ in
      rw (
        holders_fields d u (objects_length c d lc e₄) e₅,
        objects_fields c d lc e₄,
        sessions_fields b c long e₃,
        guards,
        epochs,
        copied (parts word_lengths w GUARD)
            (parts word_lengths w VOLUME_EXPIRY) 8 (part_length word_lengths w GUARD (omega (arith, h)))
            (part_length word_lengths w VOLUME_EXPIRY (omega (arith, h))),
        filled_field value_lengths x y PENDING 0 (omega (arith, l)) f,
        flags_zero 128,
        flags_zero 32,
        i,
      )

  records_restarted : records_of u y ≡ records_of w x
  unfolding records_of
  records_restarted =
      let lc = sessions_length b c long e₃ in
      rw (
        holders_fields d u (objects_length c d lc e₄) e₅,
        objects_fields c d lc e₄,
        sessions_fields b c long e₃,
        guards,
        epochs,
        filled_field value_lengths x y PENDING 0
            (omega (arith, l)) f,
      )

  pub restarts : (tables_of u y ≡ server_restarted s (tables_of w x)) × (records_of u y ≡ records_of w x)
  restarts = (tables_restarted, records_restarted)
