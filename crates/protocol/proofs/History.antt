-- The history of a run is the events of its steps, told newest first. Demand 3 once more, in functions of the history alone.
-- Letters: s setup, w world, t its tables, x a step, a its answer, rs all answers, h a history, e an event, p a test of events, d client, o and k objects, v value, u
-- latest end, T clock.
pub mod Answered
pub mod Lawful
pub mod StepsLawful
