use Rattle.text_words.proofs.answers.+push_address.Given as goal

abbrev pub decreases-push_address : goal.decreases-push_address
decreases-push_address l = l.address
