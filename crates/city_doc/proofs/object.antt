-- Lemmas for several functions of src/object/.
pub mod FaultlessBodies
pub mod LenientObjects
pub mod ObjectsRead
pub mod ReadBodies
