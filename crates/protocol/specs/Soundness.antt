-- Question 1 never refuses in a run from fresh tables: lengths and bounds that every step keeps. Where a step takes a request number, question 6 has asked for it.
pub mod StepCases
pub mod Shape
pub mod Bounds
pub mod Received
pub mod Question
