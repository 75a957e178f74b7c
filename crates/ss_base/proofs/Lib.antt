pub mod FilesLemmas
pub mod ShelvesLemmas
pub mod SinksLemmas
