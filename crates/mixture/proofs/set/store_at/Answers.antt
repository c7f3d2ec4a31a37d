-- Where a setting's numbers stand, case by case: the model has what the setting names, so its place is within the model's tables.
use Rattle.std.proofs.Common.{inl, inr}
use Rattle.mixture.proofs.SetLaws.{entry-within, entry_place, td_within, td_place, size-within, size-place, count-within, count-place, temperature-place, tolerance-place}
use Rattle.mixture.proofs.set.store_at.Goals as goal

pub entry_at-requires : goal.entry_at-requires
entry_at-requires c = entry-within c.args.head c.requires c.model_of-model.ensures c.table_width-w.ensures c.in-Entry.is

pub td_at-requires : goal.td_at-requires
td_at-requires c = td_within c.args.head c.requires c.model_of-model.ensures c.table_width-w.ensures c.in-TdEntry.is

pub size_at-requires : goal.size_at-requires
size_at-requires c = size-within c.args.head c.requires c.model_of-model.ensures c.table_width-w.ensures c.in-Size.is

pub count_at-requires : goal.count_at-requires
count_at-requires c = count-within c.args.head c.requires c.in-Count.is

pub returns-in-Temperature : goal.returns-in-Temperature
returns-in-Temperature c =
    elim c.in-Temperature.is [
      | inl e ↦ temperature-place c.args.head e.1
      | inr e ↦ tolerance-place c.args.head e.1
    ]

pub returns-in-Entry : goal.returns-in-Entry
returns-in-Entry c = entry_place c.args.head c.requires c.model_of-model.ensures c.table_width-w.ensures c.in-Entry.is c.entry_at.ensures

pub returns-in-TdEntry : goal.returns-in-TdEntry
returns-in-TdEntry c = td_place c.args.head c.requires c.model_of-model.ensures c.table_width-w.ensures c.in-TdEntry.is c.td_at.ensures

pub returns-in-Size : goal.returns-in-Size
returns-in-Size c = size-place c.args.head c.requires c.model_of-model.ensures c.table_width-w.ensures c.in-Size.is c.size_at.ensures

pub returns-in-Count : goal.returns-in-Count
returns-in-Count c = count-place c.args.head c.requires c.in-Count.is c.count_at.ensures
