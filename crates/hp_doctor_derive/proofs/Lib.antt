mod PlanSteps
mod StopSteps
mod TellSteps
