pub mod TypedOutputs
pub mod AnswerView
pub mod Laws
