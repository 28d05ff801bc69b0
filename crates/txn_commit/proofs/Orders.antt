-- an interpreter, down the jobs that were run
pub mod Interpreters
-- what stands at places, each of which stands there once
pub mod Arranged
-- what stands at the places of an order stands in that order itself
pub mod InPlace
-- what was run, in the order that is rebuilt from what it used, beside the entries of its calls
pub mod Rebuilt
-- the interpreter of a store, run down the jobs in their order
pub mod Stores
-- each caller's jobs once and in their order
pub mod Once
-- what was run, put in that order
pub mod FromRun
-- and so as if one job ran after another
pub mod Serial
