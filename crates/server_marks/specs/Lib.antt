pub mod SessionWords
