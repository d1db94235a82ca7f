pub mod ClosesToldApart
