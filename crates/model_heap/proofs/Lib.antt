mod AddressPlaces
mod Apart
pub mod BeginRefusals
mod ClassMeshes
mod CopiedBytes
pub mod CountedPages
pub mod FewMeshes
pub mod FreedObjects
pub mod GroupLists
pub mod GroupPages
pub mod HeldPages
pub mod Holders
mod KeptRecords
pub mod ListPlaces
pub mod LowestSteps
pub mod MadeObjects
pub mod MayBegin
pub mod Meanings
mod MeshClasses
pub mod MeshLists
pub mod NewApart
pub mod NewLengths
pub mod NewObjects
pub mod NewPlaces
mod OneMesh
pub mod OneSlot
pub mod OpenGroups
mod ProtectedPages
mod ReadOnlyPages
pub mod Records
mod RefusedMeshes
pub mod RefusedObjects
mod RefusedSteps
pub mod SameRecords
mod StepCounts
pub mod TableChanges
pub mod TiedMemories
pub mod TiedNewObjects
pub mod TiedTables
pub mod UnitedSlots
pub mod WholeMeshes
