pub mod PairCallSteps
