pub mod ContainerLemmas
pub mod EndLemmas
