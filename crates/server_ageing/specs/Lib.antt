pub mod NoNotes
