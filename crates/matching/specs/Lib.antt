-- Document 01 in definitions, nearly in its own order: the edition, the graph and its matrix, pairs, matchings, the session, opening and its
-- display, the plain model, the session calls, demand 3, replay, what a reader fills, records, texts in the DIMACS edge format, causes, the
-- listing, the host's number, demand 3 through the host.
pub mod Edition
pub mod Graph
pub mod Pairs
pub mod Matching
pub mod Session
pub mod Opening
pub mod Display
pub mod Model
pub mod Calls
pub mod Demand
-- A list of calls as numbers.
pub mod Replay
pub mod Filling
pub mod Records
-- Document 02, request 1.
pub mod Dimacs
pub mod Causes
pub mod Listing
pub mod Host
pub mod HostRuns
-- Decisions that the definitions use.
pub mod Decision
pub mod Decided
pub mod Computed
pub mod DimacsComputed
-- Examples.
pub mod Claims
pub mod Marked
pub mod Worked
pub mod DimacsWorked
pub mod VerdictsWorked
pub mod KeptWorked
