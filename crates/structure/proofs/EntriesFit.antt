-- `Named::entry` can be called on a record that nothing names, on one that a word of a record below 4,096 names well, and on one that
-- is named badly; and `Named::with` by such a word. Assumes nothing.
use Prim.Native.Nat.{ℕ, ◌<◌}
use native.Mathlib.Omega.{arith}
use Rattle.structure.specs.declared.naming.Named.{Named}
use Rattle.structure.specs.declared.naming.Named.TheVariants.{Nowhere, Well, Badly}
use Rattle.structure.specs.NamerEntries.{FitsEntry}

module _ (q k : ℕ) (h : q < 4096) (l : k < 6) where
  pub named-entry-callable : FitsEntry Nowhere × FitsEntry (Well (record { by = q; at = k })) × FitsEntry Badly
  named-entry-callable = (tt, (omega arith, omega arith), tt)

  pub named-with-callable : (named : Named) × FitsEntry named × (q < 4096) × (k < 6)
  named-with-callable = (Well (record { by = q; at = k }), named-entry-callable.1, h, l)
