pub mod FullLaws
pub mod JudgeLaws
pub mod JudgeRight
pub mod LimitLaws
pub mod PrepareLaws
pub mod PrepareRight
pub mod RoomLaws
pub mod VerdictLaws
