-- What a setting is declined for, case by case: each by its limits in the model.
use Rattle.arithmetic.specs.Refusals.{number_of}
use Rattle.mixture.proofs.SetLaws.{temperature-case, tolerance-case, entry_case, td_case, size-case, count-case}
use Rattle.mixture.proofs.faults.case_fault.Goals as goal

pub returns-in-Temperature : goal.returns-in-Temperature
unfolding number_of
returns-in-Temperature c m = temperature-case m c.args.head c.model_of-model.ensures c.table_width-w.ensures c.in-Temperature.is

pub returns-in-Entry : goal.returns-in-Entry
returns-in-Entry c m = entry_case m c.args.head c.model_of-model.ensures c.table_width-w.ensures c.in-Entry.is c.by_model-k.ensures c.pair_fault.ensures

pub returns-in-TdEntry : goal.returns-in-TdEntry
returns-in-TdEntry c m = td_case m c.args.head c.model_of-model.ensures c.table_width-w.ensures c.in-TdEntry.is c.by_model-k-in-TdEntry.ensures c.pair_fault-in-TdEntry.ensures

pub returns-in-Size : goal.returns-in-Size
returns-in-Size c m = size-case m c.args.head c.model_of-model.ensures c.table_width-w.ensures c.in-Size.is c.by_model-k-in-Size.ensures c.pair_fault-in-Size.ensures

pub returns-in-Count : goal.returns-in-Count
returns-in-Count c m = count-case m c.args.head c.model_of-model.ensures c.table_width-w.ensures c.in-Count.is c.list_fault.ensures

pub returns-in-Tolerance : goal.returns-in-Tolerance
returns-in-Tolerance c m = tolerance-case m c.args.head c.model_of-model.ensures c.table_width-w.ensures c.in-Tolerance.is c.tolerance_fault.ensures
