pub mod AfterReports
pub mod BestReports
pub mod Telling
pub mod VerifyReports
