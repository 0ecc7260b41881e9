mod Begun
mod Complete
mod FarSteps
mod Followed
mod HeadingSteps
mod MeetSteps
mod TrackingSteps
