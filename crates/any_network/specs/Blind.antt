-- The server's rules read nothing of what the clients know: it is the same before and after, and all else is the same whatever it is.
-- Letters: s setup, t tables, u what the clients know, A what a rule leaves, put how what they know is put into it, f a rule as a function of it; d client, o
-- object, v volume, T clock, a a value; of a message n number, e epoch, w version, m set.
use Rattle.protocol.specs.declared.tables.Views.{Views}
use Rattle.protocol.specs.Tables.{with_views}
use Rattle.protocol.specs.Writes.{Counted}
use Rattle.any_network.specs.Framing.{Frames, recounted}

abbrev pub Blind : {A : Type 0} → (A → Views → A) → (Views → A) → Type 0
Blind put f = Frames put (λ u l. u) f

-- what the clients know put into what a rule leaves
abbrev pub reviewed : Counted → Views → Counted
reviewed c u = recounted with_views c u
