-- What a client may know and hold, and when it is covered by what the server knows. The letters are those of Invariant.
use Rattle.std.specs.Prelude.{ℕ, ◌+◌, ◌*◌, ◌<◌, ◌≤◌, Bool, true, false, ◌||◌, List, ◌⊎◌, ◌≡◌, get_or}
use Rattle.protocol.specs.declared.records.Copy.{Copy}
use Rattle.protocol.specs.declared.records.Request.{Request}
use Rattle.protocol.specs.declared.setup.Setup.{Setup}
use Rattle.protocol.specs.Setup.{volume_of}
use Rattle.protocol.specs.Tables.{by_volume, by_object, no_copy, no_request}
use Rattle.protocol.specs.Leases.{client_alive}
use Rattle.laws.specs.Updated.{updated}
use Rattle.laws.specs.Sets.{bit_at}

abbrev pub copy_at : Setup → List Copy → ℕ → ℕ → Copy
copy_at s copies d o = get_or copies (d * s.objects + o) no_copy

abbrev pub request_at : List Request → ℕ → Request
request_at requests d = get_or requests d no_request

-- request n of client d is the standing one
pub record Stands (requests : List Request) (d n : ℕ) : Type 0 where
  pub there : (request_at requests d).standing ≡ true
  pub same : (request_at requests d).number ≡ n

-- the server does not count on client d's copy of object o, of volume v, being current: the client is marked, or the object noted. Of it the laws E1 and E2 in
-- Tools are used alone
unfoldable pub excused : List Bool → List ℕ → ℕ → ℕ → ℕ → Bool
excused un notes d v o = get_or un (by_volume d v) false || bit_at (get_or notes (by_volume d v) 0) o

-- what the server keeps of a client's lease on an object when it takes the client's DROPPED: nothing. Of it the laws in Tools are used alone, and in
-- Dropping that the server keeps so much
unfoldable pub left : ℕ → ℕ
left lease = 0

-- what a client may know of a volume: the epoch and the expiry, and the version and expiry of its copy of each object
pub record View : Type 0 where
  pub known : ℕ
  pub expiry : ℕ
  pub held : ℕ → ℕ
  pub until : ℕ → ℕ

abbrev pub held_of : Setup → List Copy → ℕ → ℕ → ℕ
held_of s copies d o = (copy_at s copies d o).version

abbrev pub until_of : Setup → List Copy → ℕ → ℕ → ℕ
until_of s copies d o = (copy_at s copies d o).expiry

abbrev pub view_of : Setup → List Copy → ℕ → ℕ → ℕ → View
view_of s copies d known expiry = record { known = known; expiry = expiry; held = held_of s copies d; until = until_of s copies d }

-- client d's of volume v
abbrev pub view_at : Setup → List ℕ → List ℕ → List Copy → ℕ → ℕ → View
view_at s known expiry copies d v = view_of s copies d (get_or known (by_volume d v) 0) (get_or expiry (by_volume d v) 0)

-- .. once it has taken a GRANT
abbrev pub view_granted : Setup → List Copy → ℕ → ℕ → ℕ → ℕ → ℕ → ℕ → View
view_granted s copies d o x e ver y = record { known = e; expiry = x; held = updated (held_of s copies d) o ver; until = updated (until_of s copies d) o y }

-- a copy of object o of volume v under a lease that is alive by the client's clock
pub record Held (s : Setup) (clock v : ℕ) (view : View) (o : ℕ) : Type 0 where
  pub exists : o < s.objects
  pub inside : volume_of s o ≡ v
  pub copy : view.held o ≡ 0 → ⊥
  pub alive : client_alive clock (view.until o) ≡ true

-- nothing of the set m is
pub record Unheld (s : Setup) (clock v m : ℕ) (view : View) : Type 0 where
  pub none : (o : ℕ) → bit_at m o ≡ true → Held s clock v view o → ⊥

-- it would be shown, or the server counts on it
abbrev pub Claimed : ℕ → ℕ → (ℕ → Bool) → View → ℕ → Type 0
Claimed clock epoch excuse view o = (client_alive clock view.expiry ≡ true) ⊎ ((view.known ≡ epoch) × (excuse o ≡ false))

-- Client d's view of volume v, by its clock. Where the epoch is the server's, the server knows of the volume lease; where it is older, the guard does. A
-- copy that is held and claimed is current, and where the epoch is the server's the server knows of its lease.
pub record Covered (s : Setup) (clock d v epoch guard session : ℕ) (excuse : ℕ → Bool) (version lease : List ℕ) (view : View) : Type 0 where
  pub current : view.known ≡ epoch → view.expiry ≤ session
  pub older : view.known < epoch → view.expiry ≤ guard
  pub holds : (o : ℕ) → Held s clock v view o → Claimed clock epoch excuse view o
      → (view.held o ≡ get_or version o 0) × (view.known ≡ epoch → view.until o ≤ get_or lease (by_object d o) 0)

-- the same over the tables; `clocks` are the clients', `excuse` is of a client, a volume and an object
abbrev pub ViewOk : Setup → (ℕ → ℕ) → List ℕ → List ℕ → List ℕ → (ℕ → ℕ → ℕ → Bool) → List ℕ → List ℕ → ℕ → ℕ → View → Type 0
ViewOk s clocks epoch guard session excuse version lease d v view =
    Covered s (clocks d) d v (get_or epoch v 0) (get_or guard v 0) (get_or session (by_volume d v) 0) (excuse d v) version lease view

-- a view that needs no more than what the server keeps: no volume lease, and copies that are current
pub record Remains (s : Setup) (clock d v : ℕ) (version lease : List ℕ) (view : View) : Type 0 where
  pub volume : view.expiry ≡ 0
  pub objects : (o : ℕ) → Held s clock v view o → (view.held o ≡ get_or version o 0) × (view.until o ≤ left (get_or lease (by_object d o) 0))
