pub mod FitRuns
