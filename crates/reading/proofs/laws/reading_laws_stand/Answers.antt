use Rattle.reading.proofs.Joins.{lines_join, lines_lack_ends, lines_few, fields_join, fields_lack_commas}
use Rattle.reading.proofs.Texts.{text_reads, number_texts}
use Rattle.reading.proofs.laws.reading_laws_stand.Goals as goal

pub returns : goal.returns
returns c =
    record { lines = lines_join; ends = lines_lack_ends; few = lines_few; fields = fields_join; commas = fields_lack_commas; texts = text_reads; numbers = number_texts }
