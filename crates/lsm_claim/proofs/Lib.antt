pub mod BookChanges
