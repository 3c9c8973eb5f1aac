-- No number of job 7's answer is a NaN.
mod Finite
