-- The texts of small strips, by computing the definition.
use mathlib.Core.Path.{refl}
use Rattle.arithmetic.specs.Bytes.{word_at, floats_at}
use Rattle.models.specs.Faults.{shape_fault, unifac_fault, lists_fault, data_fault}
use Rattle.models.specs.Values.{wilson_size, counts_at}
use Rattle.mixture.specs.Answers.{number_of}
use Rattle.mixture.specs.Book.{empty, having, setting_answer, query_answer, book_answer, book_answers}
use Rattle.strip.specs.GroupLists.{is_word, pairs_at, lists_at}
use Rattle.strip.specs.Records.{shape_of, record_by, read_at}
use Rattle.models.specs.Model.{model_of}
use Rattle.models.specs.Answers.{quantity_of}
use Rattle.strip.specs.Calls.{call_of}
use Rattle.strip.specs.Text.{places_to, decimal, line}
use Rattle.strip.specs.WorkedTexts.{WorkedTexts}
use Rattle.strip.specs.Run.{script_from, script_of, lines, transcript}

pub worked_texts : WorkedTexts
unfolding transcript script_of script_from lines line decimal places_to read_at record_by shape_of wilson_size counts_at lists_at pairs_at is_word word_at floats_at call_of model_of quantity_of book_answers book_answer setting_answer query_answer having number_of empty data_fault shape_fault unifac_fault lists_fault
worked_texts = (refl, refl, refl, refl, refl, refl, refl, refl)
