-- A temperature-dependent parameter at T: document 01, "Arithmetic", as `TdParam::value` of the source.
use Rattle.std.specs.Prelude.{Float}
use Rattle.arithmetic.specs.Floats.{◌⊕◌, ◌⊗◌, ◌⊘◌}
use Rattle.arithmetic.specs.Logarithm.{log_of}
use Rattle.arithmetic.specs.declared.parameters.TdParam.{TdParam}

-- a + b/T + c·L + d·T + e/(T·T)
unfoldable pub td_by : TdParam → Float → Float → Float
td_by p T L = p.a ⊕ p.b ⊘ T ⊕ p.c ⊗ L ⊕ p.d ⊗ T ⊕ p.e ⊘ (T ⊗ T)

-- the same with L = log(T)
unfoldable pub td_at : TdParam → Float → Float
td_at p T = td_by p T (log_of T)
