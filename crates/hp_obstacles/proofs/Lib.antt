pub mod FactSteps
pub mod NodeSteps
pub mod ObstacleSteps
pub mod TaskSteps
