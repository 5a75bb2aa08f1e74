pub mod Automata
pub mod ByPosition
pub mod CutLists
pub mod LastAccepting
pub mod MostPreferred
pub mod RunFuel
pub mod RunLists
