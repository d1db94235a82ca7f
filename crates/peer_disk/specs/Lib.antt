pub mod Disk
pub mod History
pub mod HistoryLaws
pub mod Records
pub mod Loading
