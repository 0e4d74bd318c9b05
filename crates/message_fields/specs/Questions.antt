-- The test of a frame's fields is the question of 01, spelled out: "kind, value present and zero fields right?"
use Rattle.std.specs.Prelude.{ℕ, Bool, false, ◌&&◌, ◌||◌, eqb}
use Rattle.std.proofs.Math.Bool.{cond}
use Rattle.message_fields.specs.declared.Fields.{Fields}

abbrev pub none : ℕ → Bool
none n = eqb 0 n

-- a GRANT's value flag is 1, or flag and value are both 0
abbrev pub payload_right : Fields → Bool
payload_right f = cond (eqb f.present 0) (none f.value) (eqb 1 f.present)

-- the fields that only a GRANT has are 0
abbrev pub no_lease : Fields → Bool
no_lease f = none f.present && none f.volume_expiry && none f.object_expiry && none f.value

-- "Fields a kind lacks are 0"; no other kind is right. "Dash and object may be any byte here." A RENEW, a BATCH and a CLEARED lack the same fields, and
-- any version is a set here
unfoldable pub right : Fields → Bool
right f =
    cond (eqb f.kind 1 || eqb f.kind 7 || eqb f.kind 8) (no_lease f)
    (cond (eqb f.kind 2) (payload_right f)
    (cond (eqb f.kind 3 || eqb f.kind 4) (no_lease f && none f.number)
    (cond (eqb f.kind 5 || eqb f.kind 6) (no_lease f && none f.version) false)))
