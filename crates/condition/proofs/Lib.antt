pub mod FieldLaws
pub mod BrokenLaws
pub mod WeighLaws
pub mod WeighRight
pub mod ConditionRight
