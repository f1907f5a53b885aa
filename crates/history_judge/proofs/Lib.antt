mod BegunReads
mod CallsCome
mod JudgementTexts
mod KeptTexts
mod PendingCalls
