pub mod TotalsLaws
