-- What a call for the next member gives, and what it leaves.
use Rattle.std.specs.Prelude.{ℕ, ◌+◌, ◌<◌, ◌≡◌, Option, MatchOption}
use Rattle.laws.specs.Sets.{bit_at}
use Rattle.laws.specs.Skip.{Found}
use Rattle.sets.specs.declared.members.Members.{Members}

-- none is left, or k is the next one and those after it are left
abbrev pub gives : Members → Option ℕ → Members → Type 0
gives s r t =
    MatchOption r (Found (bit_at s.set) s.from s.n s.n)
    (λ k. Found (bit_at s.set) s.from s.n k × (k < s.n) × (t ≡ record { set = s.set; from = k + 1; n = s.n }))
