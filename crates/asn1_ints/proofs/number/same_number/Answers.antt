use Rattle.asn1_ints.proofs.Compare.{kept_small_large, kept_large_small, kept_large_large}
use Rattle.asn1_ints.proofs.number.same_number.Goals as goal

pub returns-in-Small-Large : goal.returns-in-Small-Large
returns-in-Small-Large c = kept_small_large _ _ _ _ c.in-Small-Large.is-0 c.in-Small-Large.is-1 c.requires.a_is c.requires.b_is

pub returns-in-Large-Large : goal.returns-in-Large-Large
returns-in-Large-Large c =
    let same = rw (c.as_slice.ensures.value, c.as_slice-in-Large-Large.ensures.value) at c.eq.ensures in
    kept_large_large _ _ _ _ _ c.in-Large-Large.is-0 c.in-Large-Large.is-1 c.requires.a_is c.requires.b_is same

pub returns-in-Large-Small : goal.returns-in-Large-Small
returns-in-Large-Small c = kept_large_small _ _ _ _ c.in-Large-Small.is-0 c.in-Large-Small.is-1 c.requires.a_is c.requires.b_is
