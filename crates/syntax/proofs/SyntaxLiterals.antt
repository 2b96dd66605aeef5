-- Laws of `Exprs` and `Literals` (specs/Syntax.antt): what holds of every expression and of every literal of a command. Assumes nothing.
use Rattle.values.specs.declared.Value.{Value}
use Rattle.syntax.specs.Syntax.{Expr, literal, read, operation, Cmd, cmd, Body, skip, assign, seq, if, while, Cmds, nil, cons, LiteralsOf, Exprs, ExprsBody, ExprsAll, Literals}

-- what holds of all expressions holds of every one of a command
module _ (P : Expr → Type 0) (all : (e : Expr) → P e) where
  mutual
    unfolding Exprs ExprsBody ExprsAll

    exprs_all : (c : Cmd) → Exprs P c
    exprs_all (cmd at b) = body_all b

    body_all : (b : Body) → ExprsBody P b
    body_all skip = tt
    body_all (assign x v) = (all x, all v)
    body_all (seq cs) = each_all cs
    body_all (if g c d) = (all g, exprs_all c, exprs_all d)
    body_all (while g c) = (all g, exprs_all c)

    each_all : (cs : Cmds) → ExprsAll P cs
    each_all nil = tt
    each_all (cons c cs) = (exprs_all c, each_all cs)

-- what follows from two facts that hold of every expression does too
module _ (P Q R : Expr → Type 0) (join : (e : Expr) → P e → Q e → R e) where
  mutual
    unfolding Exprs ExprsBody ExprsAll

    pub exprs_join : (c : Cmd) → Exprs P c → Exprs Q c → Exprs R c
    exprs_join (cmd at b) p q = body_join b p q

    body_join : (b : Body) → ExprsBody P b → ExprsBody Q b → ExprsBody R b
    body_join skip p q = tt
    body_join (assign x v) p q = (join x p.0 q.0, join v p.1 q.1)
    body_join (seq cs) p q = each_join cs p q
    body_join (if g c d) p q = (join g p.0 q.0, exprs_join c p.1 q.1, exprs_join d p.2 q.2)
    body_join (while g c) p q = (join g p.0 q.0, exprs_join c p.1 q.1)

    each_join : (cs : Cmds) → ExprsAll P cs → ExprsAll Q cs → ExprsAll R cs
    each_join nil p q = tt
    each_join (cons c cs) p q = (exprs_join c p.0 q.0, each_join cs p.1 q.1)

-- The same of literals.
module _ (P : Value → Type 0) (all : (v : Value) → P v) where
  literal_all : (e : Expr) → LiteralsOf P e
  unfolding LiteralsOf
  literal_all (literal v) = all v
  literal_all (read e) = literal_all e
  literal_all (operation o l r) = (literal_all l, literal_all r)

  pub literals_all : (c : Cmd) → Literals P c
  literals_all c = exprs_all (LiteralsOf P) literal_all c

module _ (P Q R : Value → Type 0) (join : (v : Value) → P v → Q v → R v) where
  literal_join : (e : Expr) → LiteralsOf P e → LiteralsOf Q e → LiteralsOf R e
  unfolding LiteralsOf
  literal_join (literal v) p q = join v p q
  literal_join (read e) p q = literal_join e p q
  literal_join (operation o l r) p q = (literal_join l p.0 q.0, literal_join r p.1 q.1)

  pub literals_join : (c : Cmd) → Literals P c → Literals Q c → Literals R c
  literals_join c p q = exprs_join (LiteralsOf P) (LiteralsOf Q) (LiteralsOf R) literal_join c p q
