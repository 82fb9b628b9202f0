pub mod LawfulKinds
