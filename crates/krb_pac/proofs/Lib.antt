mod Steps
mod NumberLaws
mod ItemLaws
mod TableLaws
mod ElementLaws
mod VerifiedLaws
mod OnePac
