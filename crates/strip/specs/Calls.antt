-- The call that a record makes: document 01, "Strip and program".
use Rattle.std.specs.Prelude.{ℕ, ◌+◌, ◌*◌, cond, List, ◌++◌, ltb, eqb, Float}
use Rattle.arithmetic.specs.Bytes.{floats_at}
use Rattle.arithmetic.specs.declared.parameters.TdParam.{TdParam}
use Rattle.models.specs.Values.{five_at}
use Rattle.models.specs.Answers.{quantity_of}
use Rattle.mixture.specs.declared.setting.Setting.{Setting}
use Rattle.mixture.specs.declared.setting.Setting.TheVariants.{Temperature, Entry, TdEntry, Size, Count}
use Rattle.models.specs.Model.{ModelData, model_data, model_of}
use Rattle.mixture.specs.Book.{Call, Load, Set, Fractions, Query}
use Rattle.strip.specs.GroupLists.{Lists, lists_at}
use Rattle.strip.specs.Records.{Rec}

abbrev pub floats_of : List ℕ → Rec → List Float
floats_of s r = floats_at s r.body r.floats

abbrev pub lists_of : List ℕ → Rec → Lists
lists_of s r = lists_at s r.lists (r.body + 8 * r.floats)

-- kinds 1 to 4: the tables, and then the counts
abbrev pub data_of : List ℕ → Rec → ModelData
data_of s r =
    model_data (model_of r.kind) r.i r.j (lists_of s r).lens (lists_of s r).groups (floats_of s r ++ (lists_of s r).counts)

-- kinds 5 and 7 to 10, by the record's first floats: a td entry takes five, another setting one
unfoldable pub setting_of : ℕ → ℕ → ℕ → TdParam → Setting
setting_of kind i j five =
    cond (eqb kind 5) (Temperature five.a)
    (cond (eqb kind 7) (Entry i j five.a)
    (cond (eqb kind 8) (TdEntry i j five)
    (cond (eqb kind 9) (Size i j five.a)
    (Count i j five.a))))

unfoldable pub call_of : List ℕ → Rec → Call
call_of s r =
    cond (ltb r.kind 5) (Load (data_of s r))
    (cond (eqb r.kind 6) (Fractions (floats_of s r))
    (cond (eqb r.kind 11) (Query (quantity_of r.j r.i))
    (Set (setting_of r.kind r.i r.j (five_at (floats_of s r) 0)))))
