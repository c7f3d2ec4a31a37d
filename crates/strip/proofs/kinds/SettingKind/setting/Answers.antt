use Rattle.strip.specs.Calls.{setting_of}
use Rattle.strip.proofs.kinds.SettingKind.setting.Goals as goal

pub returns-in-Temperature : goal.returns-in-Temperature
unfolding setting_of
returns-in-Temperature c = rw c.in-Temperature.is

pub returns-in-Entry : goal.returns-in-Entry
unfolding setting_of
returns-in-Entry c = rw c.in-Entry.is

pub returns-in-TdEntry : goal.returns-in-TdEntry
unfolding setting_of
returns-in-TdEntry c = rw c.in-TdEntry.is

pub returns-in-Size : goal.returns-in-Size
unfolding setting_of
returns-in-Size c = rw c.in-Size.is

pub returns-in-Count : goal.returns-in-Count
unfolding setting_of
returns-in-Count c = rw c.in-Count.is
