-- What is proved of the definitions of document 01, in reading order.
-- Matchings.
pub mod MatchingLaws
-- The plain model: picks, partners, picks to come; its rules; what calls keep.
pub mod ModelLaws
pub mod Rules
pub mod History
-- What judging a list of causes gives, and what an accepting ruling says.
pub mod Judge
pub mod Sound
pub mod Faults
-- The bytes of a sequence of pairs.
pub mod Sequence
-- Every call has exactly one outcome.
pub mod OpeningOutcome
pub mod CallOutcome
-- Demand 3.
pub mod Demand
pub mod Fresh
-- Edges in a table; what either reader fills; the reader of a sheet; one outcome for the row of a vertex, replay, the reader and the listing;
-- the digits of a number; what the letter of a verdict says.
pub mod Cells
pub mod Edges
pub mod Filling
pub mod Reading
pub mod Bounds
pub mod Longest
pub mod Outcomes
pub mod Decimal
pub mod Verdicts
pub mod Kept
-- The host: its number, words as bytes, reading, and demand 3 by single calls.
pub mod Numbers
pub mod HostCells
pub mod Words
pub mod HostFilling
pub mod Sheets
pub mod Texts
pub mod HostDemand
-- The index of a weight.
pub mod Weights
