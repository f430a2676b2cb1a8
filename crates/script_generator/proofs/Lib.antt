pub mod GeneratorDraws
pub mod GeneratedExamples
pub mod DeniedLines
pub mod GeneratedSound
pub mod LaneVerdicts
pub mod VerdictWeights
pub mod SoakCounts
