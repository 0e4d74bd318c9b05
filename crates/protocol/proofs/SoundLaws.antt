-- What the gate's first question says of each item: the bounds that the code needs.
use Rattle.std.specs.Prelude.{ℕ, ◌+◌, ◌≤◌, ◌<◌, Bool, true, false, not, ◌&&◌, ◌||◌, List, ◌≡◌, ltb, leb, get_or, set}
use Rattle.std.proofs.Common.{sym, ◌∙◌, ltb-true, leb-true, eqb-true, lt-ltb, eq-eqb, get_or-set_other}
use Rattle.laws.specs.Choice.{and-true, both_true, not_both}
use Rattle.laws.specs.Each.{cleared}
use Rattle.laws.specs.Loop.{all_from, all_each}
use Rattle.laws.specs.Sets.{bit_at, set_in, all_in_law}
use Rattle.protocol.specs.declared.message.Message.{Message}
use Rattle.protocol.specs.declared.setup.Setup.{Setup}
use Rattle.protocol.specs.declared.tables.Tables.{Tables}
use Rattle.protocol.specs.Setup.{volume_of, in_volume, objects_in}
use Rattle.protocol.specs.Tables.{standing_at, version_at, end_at, object_expiry_at}
use Rattle.protocol.specs.Writes.{completed, posted}
use Rattle.protocol.specs.Messages.{message_at}
use Rattle.protocol.specs.Sound.{clock_limit, time_fits, can_grow, kind_sound, message_sound, object_sound, volume_sound, set_sound, sessions_sound, holders_sound, queue_sound, tables_sound}
use Rattle.protocol.specs.SoundLaws.{Growing}

-- the members of a sound set are objects of the volume, and each of these may be a member
pub set_member : (s : Setup) (v m o : ℕ) → set_sound s v m ≡ true → o < 32 → bit_at m o ≡ true → (o < s.objects) × (volume_of s o ≡ v)
unfolding objects_in
set_member s v m o e h b =
    let a = and-true _ _ (sym (set_in (in_volume s v) 32 o h) ∙ all_in_law _ m e o h b) in
    (ltb-true _ _ a.0, eqb-true _ _ a.1)

pub member_fits : (s : Setup) (v o : ℕ) → o < 32 → o < s.objects → volume_of s o ≡ v → bit_at (objects_in s v) o ≡ true
unfolding objects_in
member_fits s v o h p q = set_in (in_volume s v) 32 o h ∙ both_true (lt-ltb _ _ p) (eq-eqb _ _ q)

-- what question 1 says of a message: its client exists, and what its kind names
pub named : (s : Setup) (m : Message) → message_sound s m ≡ true → (m.client < s.clients) × (kind_sound s m.kind ≡ true)
named s m e =
    let g = and-true (ltb m.client s.clients) (kind_sound s m.kind) e in
    (ltb-true _ _ g.0, g.1)

module _ (s : Setup) (t : Tables) (e : tables_sound s t ≡ true) where
  -- what question 1 says of clock, objects and message list
  asked : (leb t.clock clock_limit ≡ true) × (all_from (object_sound t) 0 s.objects ≡ true) × (queue_sound s t.queue ≡ true)
  unfolding tables_sound
  asked =
      let q = and-true _ (queue_sound s t.queue) e in
      let h = and-true _ (all_from (holders_sound s t) 0 s.clients) q.0 in
      let n = and-true _ (all_from (sessions_sound s t) 0 s.clients) h.0 in
      let o = and-true _ (all_from (object_sound t) 0 s.objects) n.0 in
      let v = and-true (leb t.clock clock_limit) (all_from (volume_sound t) 0 s.volumes) o.0 in
      (v.0, o.1, q.1)

  pub sound_clock : t.clock ≤ clock_limit
  sound_clock = leb-true t.clock clock_limit asked.0

  -- "a version with a standing write below 4,294,967,295"
  sound_version : (o : ℕ) → o < s.objects → standing_at t o ≡ true → version_at t o < 4294967295
  sound_version o h stands =
      let f = all_each (object_sound t) s.objects asked.1 o h in
      let g = (and-true (leb 1 (version_at t o) && time_fits (object_expiry_at t o)) (not (standing_at t o) || (time_fits (end_at t o) && can_grow (version_at t o))) f).1 in
      ltb-true (version_at t o) 4294967295 (and-true (time_fits (end_at t o)) (can_grow (version_at t o)) (rw stands at g)).1

  pub growing : Growing s t.objects
  growing = record { below = sound_version }

  listed : (t.queue.len ≤ 64) × (all_from (λ (i : ℕ). message_sound s (message_at t.queue i)) 0 t.queue.len ≡ true)
  unfolding queue_sound
  listed =
      let l = and-true (leb t.queue.len 64) (all_from (λ (i : ℕ). message_sound s (message_at t.queue i)) 0 t.queue.len) asked.2 in
      (leb-true _ _ l.0, l.1)

  pub sound_length : t.queue.len ≤ 64
  sound_length = listed.0

  pub sound_message : (i : ℕ) → i < t.queue.len → ((message_at t.queue i).client < s.clients) × (kind_sound s (message_at t.queue i).kind ≡ true)
  sound_message i h = named s (message_at t.queue i) (all_each (λ (i : ℕ). message_sound s (message_at t.queue i)) t.queue.len listed.1 i h)

-- a flag that still stands after one was cleared is another one
pub not_cleared : (l : List Bool) (o k : ℕ) → get_or (set l o false) k false ≡ true → (k ≡ o → ⊥) × (get_or l k false ≡ true)
not_cleared l o k e = (other, sym (get_or-set_other l o k false false other) ∙ e)
  where
    other : k ≡ o → ⊥
    other p = not_both e (rw p (cleared l o))

-- completing a write leaves the others as they were
pub completed_keeps : (s : Setup) (t : Tables) (o : ℕ) → Growing s t.objects → Growing s (completed s t o).objects
unfolding completed posted
completed_keeps s t o g = record {
  below = λ k h e.
      let p = not_cleared t.objects.standing o k e in
      rw (get_or-set_other t.objects.version o k (version_at t o + 1) 0 p.0) (g.below k h p.1);
}
