pub mod RecordingSteps
pub mod TestedSets
