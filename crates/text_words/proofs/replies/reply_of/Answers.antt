use Rattle.std.proofs.Common.{◌∙◌, sym}
use Rattle.text_words.proofs.replies.reply_of.Goals as goal

pub returns-then-is_word : goal.returns-then-is_word
returns-then-is_word c =
    rw (sym c.is_word.ensures ∙ c.if-is_word.true)
    (c.object_of.ensures c.args.most)

pub returns-then-is_word-2 : goal.returns-then-is_word-2
returns-then-is_word-2 c =
    rw (
      sym c.is_word.ensures ∙ c.if-is_word.false,
      sym c.is_word-else-is_word.ensures ∙ c.if-is_word-2.true,
    )
    (c.done_of.ensures c.args.most)

pub returns-then-is_word-4 : goal.returns-then-is_word-4
returns-then-is_word-4 c =
    rw (
      sym c.is_word.ensures ∙ c.if-is_word.false,
      sym c.is_word-else-is_word.ensures ∙ c.if-is_word-2.false,
      sym c.is_word-else-is_word-2.ensures ∙ c.if-is_word-3.false,
      sym c.is_word-else-is_word-3.ensures ∙ c.if-is_word-4.true,
    )
    (c.at_of.ensures c.args.most)

pub returns-then-is_word-5 : goal.returns-then-is_word-5
returns-then-is_word-5 c =
    rw (
      sym c.is_word.ensures ∙ c.if-is_word.false,
      sym c.is_word-else-is_word.ensures ∙ c.if-is_word-2.false,
      sym c.is_word-else-is_word-2.ensures ∙ c.if-is_word-3.false,
      sym c.is_word-else-is_word-3.ensures ∙ c.if-is_word-4.false,
      sym c.is_word-else-is_word-4.ensures ∙ c.if-is_word-5.true,
    )
    (c.peeked_of.ensures c.args.most)

pub returns-then-is_word-6 : goal.returns-then-is_word-6
returns-then-is_word-6 c =
    rw (
      sym c.is_word.ensures ∙ c.if-is_word.false,
      sym c.is_word-else-is_word.ensures ∙ c.if-is_word-2.false,
      sym c.is_word-else-is_word-2.ensures ∙ c.if-is_word-3.false,
      sym c.is_word-else-is_word-3.ensures ∙ c.if-is_word-4.false,
      sym c.is_word-else-is_word-4.ensures ∙ c.if-is_word-5.false,
      sym c.is_word-else-is_word-5.ensures ∙ c.if-is_word-6.true,
    )
    (c.refused_of.ensures c.args.most)
