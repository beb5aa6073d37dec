pub mod FoundAgain
