mod Names
pub mod FiringLemmas
pub mod EndLemmas
pub mod BoundLemmas
pub mod FewLemmas
pub mod CertificateLemmas
pub mod BurningLemmas
pub mod LegalLemmas
pub mod OutcomeLemmas
pub mod BatchLemmas
pub mod AfterLemmas
pub mod StageLemmas
