use Prim.Native.Nat.{ℕ}
use native.Mathlib.Nat.{le_of_eq}
use mathlib.Core.Path.{sym}
use lib.ListN.{length-replicate}
use lib.Seq.{length-take-le}
use Rattle.std.proofs.lemmas.Result.{err_from_is_err_and}
use Rattle.run.proofs.Laws.{list_refused, listing_there, copy_fits, list_written, list_short}
use Rattle.run.proofs.list.Goals as goal

pub returns-in_err-c : goal.returns-in_err-c
returns-in_err-c c =
    let p = err_from_is_err_and c.from_residual.result c.from_residual.ensures.1 in
    rw (p.1, p.2) (list_refused _ _ _ c.in_err-c.ensures)

pub slice_bounds-print-end : goal.slice_bounds-print-end
slice_bounds-print-end c = sym (length-replicate {A = ℕ} 112640 0)

pub print-n-requires : goal.print-n-requires
print-n-requires c = record { c_value = c.in_ok-c.ensures; in_bounds = le_of_eq (sym (length-replicate {A = ℕ} 112640 0)) }

pub returns-then-out-n : goal.returns-then-out-n
returns-then-out-n c =
    list_short _ _ c.in_ok-c.ensures _ _ _ (length-replicate {A = ℕ} 112640 0) c.print-n.ensures _ c.if-out-n.true

pub slice_bounds-buffer-end : goal.slice_bounds-buffer-end
slice_bounds-buffer-end c = listing_there _ _ c.in_ok-c.ensures _ _ _ (length-replicate {A = ℕ} 112640 0) c.print-n.ensures

pub slice_bounds-write_bytes-end : goal.slice_bounds-write_bytes-end
slice_bounds-write_bytes-end c =
    sym (length-take-le _ _ (listing_there _ _ c.in_ok-c.ensures _ _ _ (length-replicate {A = ℕ} 112640 0) c.print-n.ensures))

pub write_bytes-requires : goal.write_bytes-requires
write_bytes-requires c =
    copy_fits _ _ c.in_ok-c.ensures _ _ _ (length-replicate {A = ℕ} 112640 0) c.print-n.ensures _ c.if-out-n.false

pub returns : goal.returns
returns c =
    list_written _ _ c.in_ok-c.ensures _ _ _ (length-replicate {A = ℕ} 112640 0)
    c.print-n.ensures _ _ _ c.if-out-n.false c.write_bytes.ensures
