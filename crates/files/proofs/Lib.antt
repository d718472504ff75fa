pub mod SavedLaws
