use Rattle.html_text.proofs.PlainTexts.{words, parts, strings, data_inert, listings, graphs}
use Rattle.html_text.proofs.plain.texts_are_plain.Goals as goal

pub returns-clause-words : goal.returns-clause-words
returns-clause-words c = words

pub returns-clause-parts : goal.returns-clause-parts
returns-clause-parts c = parts

pub returns-clause-strings : goal.returns-clause-strings
returns-clause-strings c = strings

pub returns-clause-data : goal.returns-clause-data
returns-clause-data c = data_inert

pub returns-clause-listings : goal.returns-clause-listings
returns-clause-listings c = listings

pub returns-clause-graphs : goal.returns-clause-graphs
returns-clause-graphs c = graphs
