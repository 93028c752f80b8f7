use Rattle.test_words.proofs.+try_lists.Given as goal

abbrev pub decreases-try_lists : goal.decreases-try_lists
decreases-try_lists l = l.more
