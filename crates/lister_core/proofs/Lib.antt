pub mod ListerLaws
