-- What a step sees, in arrays and in the model.
pub mod Parts
