pub mod Beginnings
pub mod FlawTexts
pub mod Judgements
pub mod JudgementTexts
pub mod OrderedHistories
