-- Two schedules by the names of their steps, and the outcome of comparing them.
pub mod TraceNames
pub mod SameOutcomes
