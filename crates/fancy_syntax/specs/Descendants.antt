-- The proper descendants of an `Expr`: its children and theirs.
use Rattle.std.specs.List.{IsAmong}
use Rattle.fancy_syntax.specs.Children.{children_of}
use Rattle.fancy_syntax.specs.declared.expr.Expr.{Expr}

-- d is a proper descendant of e
pub data IsDescendant (d : Expr) : Expr → Type 0 where
  child : {e : Expr} → IsAmong (children_of e) d → IsDescendant d e
  deeper : {e c : Expr} → IsAmong (children_of e) c → IsDescendant d c → IsDescendant d e
